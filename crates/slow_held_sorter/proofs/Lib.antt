-- What the functions come to (Exits).
pub mod Exits
