-- Which rows are measured and not written.
pub mod Plain
