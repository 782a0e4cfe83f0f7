pub mod Faults
pub mod StorePeer
