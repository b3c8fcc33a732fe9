pub mod Keys
pub mod Matching
pub mod Newest
pub mod Ranges
pub mod Schemes
pub mod Sorting
pub mod Written
