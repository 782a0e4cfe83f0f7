pub mod Settling
pub mod Arriving
