pub mod Represents
