-- The facts that the proofs come to.
pub mod Seeking
