pub mod Passes
pub mod Opening
