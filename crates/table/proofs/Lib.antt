-- Laws of the rows.
pub mod Rows
