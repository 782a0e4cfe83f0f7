pub mod Boundaries
pub mod Flags
pub mod Requests
