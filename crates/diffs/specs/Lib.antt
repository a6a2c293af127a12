-- What the public calls that write updates promise.
pub mod Promises
