pub mod Fields
pub mod Parts
pub mod Signing
pub mod Facts
pub mod Reading
