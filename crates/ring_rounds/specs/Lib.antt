pub mod Maps
pub mod Peers
pub mod Turns
pub mod Rounds
pub mod Joins
