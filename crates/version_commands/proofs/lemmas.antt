pub mod Each
pub mod Faults
pub mod Files
pub mod Header
pub mod Hints
pub mod Lists
pub mod Ordered
pub mod Picked
