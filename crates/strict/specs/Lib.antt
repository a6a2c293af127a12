-- What the public call `read_update_strict` promises.
pub mod Promises
