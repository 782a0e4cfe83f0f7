pub mod Operations
pub mod Answers
pub mod Keeping
pub mod Serving
pub mod Handling
pub mod Finding
pub mod Complete
