pub mod Flipping
pub mod Entered
