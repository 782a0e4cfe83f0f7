pub mod Stepping
mod Connecting
mod Judging
mod Pieces
mod Requesting
