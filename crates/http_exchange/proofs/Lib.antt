pub mod Bodies
pub mod Codes
pub mod Hearing
pub mod Noting
pub mod Reading
pub mod Taking
