-- Both tables hold of the definitions.
pub mod Starred
pub mod Places
