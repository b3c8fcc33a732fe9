pub mod Kinds
pub mod Orders
pub mod Parts
