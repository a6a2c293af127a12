-- What the public calls promise.
pub mod Promises
