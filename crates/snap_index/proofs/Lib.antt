pub mod Keeping
pub mod Finely
pub mod Turning
pub mod Joining
pub mod Searching
pub mod Making
