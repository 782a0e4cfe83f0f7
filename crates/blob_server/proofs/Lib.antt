pub mod Joining
pub mod Giving
pub mod Ending
