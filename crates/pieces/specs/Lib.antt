-- What the theorems speak of.
pub mod Pieces
pub mod Cases
