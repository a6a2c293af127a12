-- What the public call `read_update` promises.
pub mod Promises
