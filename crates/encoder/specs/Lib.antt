-- What the passes over the block table make.
pub mod Passes
pub mod Alone
