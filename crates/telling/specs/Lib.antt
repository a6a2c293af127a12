-- A draw, told.
pub mod Asked
pub mod Telling
pub mod TellingInner
