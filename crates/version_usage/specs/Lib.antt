pub mod Grammar
pub mod Named
pub mod Rows
pub mod Wrong
