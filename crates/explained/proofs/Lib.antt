-- Theorems about explanations: their lines, read as a record, are the block's row (Values), and its clock is its base and its difference (Clocks).
pub mod Rows
pub mod Telling
pub mod Values
pub mod Clocks
