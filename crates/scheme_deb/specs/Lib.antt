pub mod Deb
pub mod Laws
pub mod Order
pub mod Texts
