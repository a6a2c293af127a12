-- Laws of reading blocks a step at a time.
pub mod Answers
pub mod Laws
