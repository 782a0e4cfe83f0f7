pub mod Telling
pub mod Beginnings
pub mod SnapSeats
pub mod Legal
pub mod Making
