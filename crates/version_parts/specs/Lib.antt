pub mod Body
pub mod Chunk
pub mod Compare
pub mod Last
pub mod MChunk
pub mod Pieces
pub mod Sep
