-- The facts that the answers come to.
pub mod Ways
