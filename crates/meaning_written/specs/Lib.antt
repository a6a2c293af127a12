-- What is written, as short as it can be said.
pub mod Columns
pub mod Texts
pub mod Diff
pub mod Between
