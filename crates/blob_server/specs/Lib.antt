pub mod Counting
pub mod Desks
pub mod Stands
pub mod Ends
