pub mod Laws
pub mod Order
pub mod Pypi
pub mod Stages
pub mod Texts
