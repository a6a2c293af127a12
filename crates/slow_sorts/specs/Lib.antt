-- What the public call that sorts slowly promises.
pub mod Promises
