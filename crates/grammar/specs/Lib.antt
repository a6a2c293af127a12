-- The grammar of an update as data, how it is read, and its interpreters.
pub mod Grammar
pub mod Course
pub mod Blocks
pub mod Deletes
pub mod Update
pub mod Whole
pub mod Trace
pub mod Fragments
pub mod Numbered
