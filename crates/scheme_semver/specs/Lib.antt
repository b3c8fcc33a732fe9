pub mod Laws
pub mod Order
pub mod Reading
pub mod Rules
pub mod Texts
