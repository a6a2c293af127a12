-- The writers' runs are the longest there are.
pub mod Fewest
