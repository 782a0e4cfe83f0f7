pub mod StoreAbout
pub mod StoreSeats
pub mod Legal
pub mod Ahead
