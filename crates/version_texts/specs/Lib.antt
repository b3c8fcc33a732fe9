pub mod Asked
pub mod Key
pub mod Mixed
pub mod Order
pub mod Scan
pub mod VersioningRef
