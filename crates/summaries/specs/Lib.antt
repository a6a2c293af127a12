-- What the public calls on summaries promise.
pub mod Promises
