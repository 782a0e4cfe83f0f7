pub mod Answers
pub mod Causes
pub mod Merging
pub mod Pages
