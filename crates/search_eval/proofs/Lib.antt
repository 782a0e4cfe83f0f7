pub mod Walk
pub mod Beginning
pub mod Orders
pub mod Asked
