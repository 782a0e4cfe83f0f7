pub mod Listings
pub mod Reading
pub mod Refusals
pub mod Search
