pub mod Digits
pub mod Marked
pub mod Standing
pub mod Texts
