pub mod PartReadings
mod Addresses
pub mod Numbers
pub mod LineReadings
pub mod Fitting
pub mod Placing
pub mod OnePlace
