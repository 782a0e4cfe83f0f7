pub mod Numbers
pub mod Firsts
pub mod Entries
pub mod Facts
pub mod Tells
pub mod Fronts
