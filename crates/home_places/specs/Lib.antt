pub mod Seats
pub mod Searches
pub mod Passes
pub mod Working
pub mod Showing
