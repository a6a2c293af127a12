-- The laws of the delete set's steps, the rows that they fill, and the set in normal form.
pub mod Steps
pub mod Rows
pub mod Sets
