pub mod Costs
pub mod Plain
pub mod Rpm
pub mod Viable
