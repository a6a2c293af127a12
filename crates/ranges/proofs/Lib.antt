-- The normal form is unique and `normal` gives it (Theory), words and ranges (Flat), the limits kept (Fines), and the laws of the passes.
pub mod Theory
pub mod Flat
pub mod Fines
pub mod Rows
pub mod Exchanges
pub mod Stirs
pub mod Packs
pub mod Heaps
pub mod Orders
pub mod Splits
pub mod Sides
pub mod Joins
pub mod Levels
