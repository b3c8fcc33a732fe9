pub mod Next
pub mod NextPre
pub mod NextPreText
pub mod NextText
pub mod Stability
pub mod Tag
pub mod Worked
