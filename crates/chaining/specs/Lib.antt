-- Chains of rows, and what is seen of an id from where its client's queue stands (Chaining).
pub mod Chaining
