-- What the passes over all lanes of a form make.
pub mod Forms
pub mod Measures
