-- The tokens of records, sections and delete ranges (Records), of rows that a plan names (Stops), and of a table of delete ranges, row by row
-- (DeleteRows).
pub mod Records
pub mod Stops
pub mod DeleteRows
