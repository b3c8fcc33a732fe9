pub mod Epochs
pub mod Left
pub mod Pieces
pub mod Walks
