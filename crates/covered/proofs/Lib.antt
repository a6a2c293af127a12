-- What the crate proves.
pub mod Diffs
