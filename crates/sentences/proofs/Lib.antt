-- Document 01's sentences on columns hold of the definitions.
pub mod Said
