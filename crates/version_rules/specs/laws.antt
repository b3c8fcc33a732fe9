pub mod Front
pub mod Key
pub mod Last
pub mod Matching
pub mod Part
pub mod Versioning
