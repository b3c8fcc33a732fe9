pub mod Matching
pub mod Range
pub mod Requirement
pub mod Requirements
pub mod SemVerMatch
pub mod VersionMatch
