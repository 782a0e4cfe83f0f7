pub mod Contents
mod Counts
pub mod Answered
pub mod Listed
