-- Why no other answer fits, and what is written and read.
pub mod Unique
pub mod Answers
pub mod Legal
pub mod Back
