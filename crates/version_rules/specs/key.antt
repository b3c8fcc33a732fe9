pub mod Key
pub mod PartKey
pub mod Texts
