pub mod AnyVersion
pub mod Order
