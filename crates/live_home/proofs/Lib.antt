pub mod Owning
pub mod Entries
pub mod Indexing
pub mod Gathering
pub mod Stepping
