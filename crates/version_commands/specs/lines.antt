pub mod Arranged
pub mod Choice
pub mod Ordered
pub mod Picked
