pub mod Signing
pub mod Putting
pub mod Noting
pub mod Sealing
pub mod Changing
