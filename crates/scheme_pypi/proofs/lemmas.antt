pub mod Costs
pub mod Items
pub mod Pieces
pub mod Release
pub mod Viable
