pub mod Flaw
pub mod Front
pub mod Scheme
pub mod any
