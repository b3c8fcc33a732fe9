pub mod Ends
pub mod Releases
pub mod Stages
pub mod Words
