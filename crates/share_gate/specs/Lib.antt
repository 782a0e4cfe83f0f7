pub mod Gates
pub mod Tables
pub mod Building
