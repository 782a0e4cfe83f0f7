pub mod Steps
pub mod Holding
pub mod Least
pub mod Tails
pub mod Gathering
pub mod Crashes
pub mod Models
