pub mod Bounds
pub mod Refusing
