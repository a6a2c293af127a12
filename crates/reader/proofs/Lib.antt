-- Laws that proofs share.
pub mod Course
pub mod Keyless
