-- Lists of runs, and that the writers' are the shortest.
pub mod Longest
