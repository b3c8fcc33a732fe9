pub mod Any
pub mod Front
pub mod Table
