pub mod Counting
pub mod Entries
pub mod Keeping
pub mod Keys
pub mod Lasts
pub mod Order
pub mod Stepping
pub mod Texts
