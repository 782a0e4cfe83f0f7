pub mod Blobs
pub mod Incoming
pub mod Search
pub mod Load
