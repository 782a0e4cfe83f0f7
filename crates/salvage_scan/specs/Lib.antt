pub mod Salvage
pub mod Rules
pub mod Scan
pub mod Arrivals
pub mod Clean
pub mod Pieces
pub mod Ahead
pub mod JunkRuns
