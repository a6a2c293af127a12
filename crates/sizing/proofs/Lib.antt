-- The laws of rows that are measured and not written: which they are, and what their tokens are.
pub mod Plain
