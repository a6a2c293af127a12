-- What the proofs of the crate and of its callers share.
pub mod Examples
pub mod Laws
