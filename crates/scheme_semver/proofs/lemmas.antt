pub mod Numbers
pub mod Reading
pub mod Costs
pub mod SemVer
pub mod Values
pub mod Walks
