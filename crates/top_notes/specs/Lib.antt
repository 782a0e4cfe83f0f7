pub mod Notes
pub mod Storing
pub mod Meanings
pub mod Multi
