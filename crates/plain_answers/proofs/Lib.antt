pub mod Deleting
pub mod Learning
pub mod Moments
pub mod Reaching
pub mod Walking
