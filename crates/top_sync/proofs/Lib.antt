pub mod Exchanged
pub mod Stored
pub mod Pushed
pub mod Pulled
