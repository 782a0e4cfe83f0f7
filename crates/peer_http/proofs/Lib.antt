pub mod Bodies
pub mod Pages
pub mod Replied
pub mod Asked
pub mod Dialed
