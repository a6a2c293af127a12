-- What is read of a block: its row as words.
pub mod Row
