pub mod Asking
pub mod Denials
pub mod Answers
pub mod Serving
pub mod Handling
