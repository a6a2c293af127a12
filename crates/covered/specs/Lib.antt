-- The ids that blocks cover.
pub mod Covered
