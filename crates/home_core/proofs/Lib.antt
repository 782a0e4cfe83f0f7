pub mod Counting
pub mod Putting
pub mod Sights
pub mod Times
pub mod Soundness
pub mod Promised
