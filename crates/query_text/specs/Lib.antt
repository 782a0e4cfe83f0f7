pub mod Text
pub mod Pairs
pub mod Laws
