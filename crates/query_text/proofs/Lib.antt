pub mod Pairs
pub mod Looking
pub mod Sound
pub mod Back
pub mod ReadBack
pub mod Spelled
