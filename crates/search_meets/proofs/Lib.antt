pub mod Texts
pub mod Marked
pub mod Walk
pub mod Gathering
