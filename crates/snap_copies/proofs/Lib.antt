pub mod Adding
pub mod Readings
pub mod Linking
pub mod Filling
pub mod Placing
pub mod Equality
