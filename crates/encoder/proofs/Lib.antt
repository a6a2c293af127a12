-- How a cursor goes through the rows that a plan names (Cursors), and the loops over the rows (Plans, Rows, Keyless, Alone).
pub mod Cursors
pub mod Plans
pub mod Rows
pub mod Keyless
pub mod Alone
