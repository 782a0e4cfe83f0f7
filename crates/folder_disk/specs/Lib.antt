pub mod Silent
pub mod Accesses
