-- Bits, most significant first.
pub mod Bits
pub mod Places
