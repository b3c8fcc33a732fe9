-- What comes next after a version: its order, its text, and how both are read off a text.
pub mod Order
pub mod Read
pub mod Text
