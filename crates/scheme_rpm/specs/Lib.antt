pub mod Laws
pub mod Order
pub mod Rpm
pub mod Texts
