pub mod Cases
pub mod Payloads
pub mod Typed
pub mod Stepwise
pub mod Reaching
