-- What it is that a reader draws tokens.
pub mod Draws
