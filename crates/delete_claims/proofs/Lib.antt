pub mod Rounds
pub mod Flips
pub mod Chain
pub mod OneRow
pub mod Ticks
