pub mod Cited
pub mod Compare
pub mod Keys
pub mod Lists
pub mod Pieces
pub mod Scans
