-- What holds of rows as words, of grammars that are read over them, and of clocks.
pub mod Rows
pub mod Laws
pub mod Clocks
