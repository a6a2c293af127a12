-- One pass over a slice, and over a text with its unit lengths.
pub mod Once
pub mod Texts
