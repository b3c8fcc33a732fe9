-- What comes next among the pre-releases of a word: its order, its number, its text, and how these
-- are read off a text.
pub mod Number
pub mod Order
pub mod Read
pub mod Text
