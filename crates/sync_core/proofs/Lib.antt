pub mod Gone
pub mod Taking
mod Standing
mod Paging
