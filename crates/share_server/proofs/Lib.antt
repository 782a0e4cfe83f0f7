mod Listing
mod Ending
