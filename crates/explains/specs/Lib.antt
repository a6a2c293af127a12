-- What the public call `explain` promises.
pub mod Promises
pub mod Whole
pub mod Worked
pub mod Sums
