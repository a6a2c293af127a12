-- The diff of what was read (Diff), and the steps that write it (Writing, and WritingInner for inner functions).
pub mod Diff
pub mod Writing
pub mod WritingInner
