pub mod Numbers
pub mod Judging
pub mod Halfway
pub mod Indexed
pub mod Costs
pub mod Following
pub mod Additions
