-- What the theorems speak of.
pub mod Places
pub mod Appended
