pub mod Shares
pub mod Links
pub mod Reach
pub mod Verdicts
pub mod Laws
