-- That these are what the promises say.
pub mod Diffs
