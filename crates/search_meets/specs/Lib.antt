pub mod Tests
pub mod Values
pub mod Meaning
pub mod Computed
