-- What the slow plain sorter does with rows and the entries of a vector.
pub mod Slowly
