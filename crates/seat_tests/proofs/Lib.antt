pub mod FewSteps
pub mod Taken
