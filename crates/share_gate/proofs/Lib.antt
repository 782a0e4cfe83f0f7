mod Small
pub mod Verdicts
mod Paths
mod Facts
mod Blobs
mod Rows
mod Targets
mod Whole
pub mod Reading
