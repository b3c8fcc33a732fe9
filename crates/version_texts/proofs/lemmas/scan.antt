pub mod Complex
pub mod Scanned
pub mod Section
pub mod Shape
pub mod Spelled
pub mod Tail
pub mod TextKind
