-- What a step of reading an update's blocks is.
pub mod Steps
