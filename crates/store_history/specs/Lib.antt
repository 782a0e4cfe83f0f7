pub mod Represents
pub mod Beginning
pub mod Finding
pub mod Once
pub mod Together
