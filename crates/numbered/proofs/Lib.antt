-- Which block of a queue holds an id (Holders), and which blocks are numbered how (Blocks); sorting these by reaches sorts by held ids (Numbered),
-- and slowly too (Slow).
pub mod Holders
pub mod Blocks
pub mod Numbered
pub mod Slow
