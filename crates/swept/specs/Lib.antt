-- What the slow plain sorter's sweeps come to.
pub mod Swept
