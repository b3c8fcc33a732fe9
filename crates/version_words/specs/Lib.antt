pub mod Task
pub mod Words
pub mod Wrong
