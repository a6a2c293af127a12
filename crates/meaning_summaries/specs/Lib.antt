-- What the calls on summaries promise, as short as it can be said.
pub mod Promises
