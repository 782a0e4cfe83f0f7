pub mod Keeping
pub mod Starts
pub mod Answers
pub mod Sights
pub mod Legal
