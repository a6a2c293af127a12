-- The laws of records that are written: numbers in line (Lines), a block part by part (Writes), where it has no keys (Keyless),
-- a row that is cut (Sane), a table of delete ranges row by row (DeleteRows), a delete set (Deletes), and rows that a plan names (Stops).
pub mod Lines
pub mod Writes
pub mod Keyless
pub mod Sane
pub mod DeleteRows
pub mod Deletes
pub mod Stops
