-- What the public call that sorts by held ids slowly promises.
pub mod Promises
