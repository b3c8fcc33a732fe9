pub mod Message
pub mod One
pub mod Sets
pub mod Spelling
pub mod Tags
pub mod Two
