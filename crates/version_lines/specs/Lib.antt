pub mod Column
pub mod Csv
pub mod Entry
pub mod Inputs
pub mod Lines
pub mod Newest
pub mod Sort
