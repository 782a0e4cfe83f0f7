pub mod Faults
pub mod Values
pub mod Grammar
pub mod Reading
pub mod Laws
