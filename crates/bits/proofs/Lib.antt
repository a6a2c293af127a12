-- Laws of bits.
pub mod Laws
pub mod Places
pub mod Inverse
pub mod Passing
pub mod Words
