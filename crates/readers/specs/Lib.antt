-- What column readers are, and what they promise.
pub mod Readers
pub mod Promises
pub mod Answers
