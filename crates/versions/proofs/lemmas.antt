pub mod Conversions
pub mod Errors
pub mod Keys
pub mod Mess
