pub mod Cutting
pub mod Source
pub mod Laws
pub mod Drafts
pub mod Writing
