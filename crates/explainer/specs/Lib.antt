-- The draws that made a block's record, each with its origin.
pub mod Watch
pub mod Explanation
pub mod Following
pub mod Record
