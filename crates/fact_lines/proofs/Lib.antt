pub mod Gathering
pub mod Taking
pub mod Loading
