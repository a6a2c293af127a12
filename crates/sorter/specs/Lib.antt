-- What a sorter does with rows and the entries of a vector.
pub mod Sorter
