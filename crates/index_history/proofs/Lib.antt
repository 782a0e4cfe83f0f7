pub mod Adding
pub mod Represents
