-- What the proofs of the crate and of its callers share.
pub mod Laws
pub mod Longest
pub mod Unique
