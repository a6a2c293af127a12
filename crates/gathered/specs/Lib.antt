-- The rows of an update.
pub mod RowsOf
pub mod Gathered
