-- What is read of the delete set of an update, and the steps that read it.
pub mod DeleteSet
pub mod Steps
