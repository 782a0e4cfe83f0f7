pub mod Maps
pub mod Running
pub mod Joining
mod Walking
mod Undoing
mod Changing
mod Stepping
