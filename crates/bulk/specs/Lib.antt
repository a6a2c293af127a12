-- What reading in bulk is, and what the public calls promise.
pub mod Bulk
pub mod BulkInner
pub mod Promises
