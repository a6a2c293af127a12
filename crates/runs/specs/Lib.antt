-- What column writers write: the columns' rules, runs, refusals, and the state of a writer.
pub mod Number
pub mod Difference
pub mod Byte
pub mod Runs
pub mod RunsInner
pub mod Writer
