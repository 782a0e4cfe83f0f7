pub mod Keys
pub mod Levels
pub mod Conditions
pub mod Telling
pub mod Validity
