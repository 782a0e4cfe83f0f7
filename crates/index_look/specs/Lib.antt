pub mod Look
pub mod Walk
pub mod Claims
pub mod Latest
pub mod Known
