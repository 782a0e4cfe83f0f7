pub mod Hashed
