pub mod Laws
pub mod Order
pub mod Rules
pub mod Segments
pub mod Texts
