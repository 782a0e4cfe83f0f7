pub mod Walk
pub mod Fetching
pub mod Reading
pub mod Bytes
pub mod Laws
