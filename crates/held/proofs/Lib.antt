-- What holds of rows as words, and of grammars that are read over them.
pub mod Rows
pub mod Laws
