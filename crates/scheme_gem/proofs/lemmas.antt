pub mod Costs
pub mod Segments
pub mod Walks
