-- The lowest byte is one of those that are left, and none is below it.
pub mod Lowest
