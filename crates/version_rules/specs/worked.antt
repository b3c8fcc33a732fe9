pub mod Keys
pub mod Ranges
