pub mod Blobs
pub mod Causes
pub mod Memory
pub mod Order
