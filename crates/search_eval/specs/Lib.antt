pub mod Answer
pub mod Held
pub mod Walk
pub mod Laws
