-- What the theorems speak of.
pub mod Ends
pub mod Numbered
pub mod Longer
