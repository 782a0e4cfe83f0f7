pub mod Writing
pub mod Parentheses
pub mod Pushing
pub mod Laws
