-- Blocks that hang on the numbers of other blocks, in place of ids.
pub mod Numbered
