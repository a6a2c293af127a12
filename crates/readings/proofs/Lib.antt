-- What every reading has.
pub mod Groups
pub mod RangeGroups
pub mod Columns
pub mod Fits
pub mod Walks
pub mod Fields
pub mod Blocks
pub mod Sections
pub mod Sounds
pub mod Orders
pub mod Counts
pub mod RangesFound
