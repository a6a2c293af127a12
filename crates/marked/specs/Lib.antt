-- What the writers of marked contents promise.
pub mod Marked
