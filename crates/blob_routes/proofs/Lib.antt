pub mod Digits
pub mod First
pub mod Further
pub mod Gathering
pub mod Named
