-- Calls that are done (Calls; HeldCalls, of `sort_held`), what is asked of a sorter (Sorters), what it means that one sort is not worse than another
-- (Worse), and examples: where reaches rise (Examples), and why a diff has to read (TooLong).
pub mod Calls
pub mod Sorters
pub mod Worse
pub mod Examples
pub mod TooLong
pub mod HeldCalls
