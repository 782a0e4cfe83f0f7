pub mod Faults
pub mod Puts
pub mod Ends
pub mod Uploads
pub mod Taking
pub mod UploadOutcome
pub mod Adds
pub mod Laws
