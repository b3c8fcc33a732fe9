pub mod Fault
pub mod Place
