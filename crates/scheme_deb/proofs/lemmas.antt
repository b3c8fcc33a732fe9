pub mod Costs
pub mod Cut
pub mod Front
pub mod Plain
pub mod Viable
