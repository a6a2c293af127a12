-- What a summary is, and what the code does with its rows.
pub mod Rows
pub mod RowsInner
pub mod Summary
pub mod Words
pub mod WordsInner
