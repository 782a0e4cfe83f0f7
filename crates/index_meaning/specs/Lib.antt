pub mod Meaning
pub mod Laws
pub mod Steps
pub mod Progress
pub mod Touching
pub mod Concerns
