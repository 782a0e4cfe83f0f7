pub mod AttributeTurns
pub mod Times
pub mod Turns
pub mod Refolded
pub mod Following
