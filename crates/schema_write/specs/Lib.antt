pub mod Blobs
pub mod Laws
pub mod Drafts
pub mod Generated
