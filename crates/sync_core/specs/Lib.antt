pub mod Causes
pub mod Copying
pub mod Syncing
pub mod Turns
