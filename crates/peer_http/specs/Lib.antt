pub mod Answers
pub mod Calls
pub mod Dialing
pub mod Links
pub mod Replies
