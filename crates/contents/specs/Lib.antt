-- What the public calls `content` and `look` promise.
pub mod Promises
pub mod PromisesInner
