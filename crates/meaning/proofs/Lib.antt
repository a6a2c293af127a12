-- That the short reading and the grammar as data mean the same.
pub mod Text
pub mod Line
pub mod Columns
pub mod Answers
pub mod Fields
pub mod Opening
pub mod Courses
pub mod Blocks
pub mod Runs
pub mod Deletes
pub mod Whole
pub mod Enough
pub mod Vector
pub mod Ending
