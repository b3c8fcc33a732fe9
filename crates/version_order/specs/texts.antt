pub mod Bytes
pub mod Class
pub mod Cuts
pub mod Front
pub mod Grammar
