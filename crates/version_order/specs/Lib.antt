pub mod Facts
pub mod Keyed
pub mod Rules
pub mod Viable
pub mod keys
pub mod texts
