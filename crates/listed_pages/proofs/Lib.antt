pub mod Room
pub mod Runs
pub mod Lacks
pub mod Lasts
pub mod Faults
pub mod Chains
mod Merge
