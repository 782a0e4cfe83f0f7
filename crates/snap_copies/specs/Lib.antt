pub mod Books
pub mod Copies
pub mod Shows
pub mod FactIsValid
pub mod Watches
pub mod Linked
pub mod Steps
