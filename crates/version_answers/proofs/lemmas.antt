pub mod Explain
pub mod One
