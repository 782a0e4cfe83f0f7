pub mod IndexSeats
