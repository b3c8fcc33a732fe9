pub mod grammar
pub mod key
pub mod laws
pub mod order
pub mod requirement
pub mod worked
