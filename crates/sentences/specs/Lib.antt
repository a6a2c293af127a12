-- Document 01's sentences on columns.
pub mod Sentences
