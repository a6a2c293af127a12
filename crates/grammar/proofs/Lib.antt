-- What holds of every grammar and every reader.
pub mod Runs
pub mod Mirrors
pub mod Trace
pub mod Fragments
pub mod Numbered
pub mod Whole
