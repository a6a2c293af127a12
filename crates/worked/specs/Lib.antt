-- Examples worked by hand: updates that are read (Updates), diffs (Diffs) and sorts (Sorts).
pub mod Updates
pub mod Diffs
pub mod Sorts
