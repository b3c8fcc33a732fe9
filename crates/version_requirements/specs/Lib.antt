pub mod Newest
pub mod Range
pub mod Requirement
