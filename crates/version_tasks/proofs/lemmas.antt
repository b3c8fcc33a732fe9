pub mod Next
pub mod NextPre
pub mod Stability
pub mod Tag
pub mod Worked
