pub mod Pages
pub mod Racks
mod Listing
