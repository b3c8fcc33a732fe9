pub mod Column
pub mod FirstOfEach
pub mod KeyedLines
pub mod Lines
pub mod Newest
pub mod NewestLine
pub mod Sorting
