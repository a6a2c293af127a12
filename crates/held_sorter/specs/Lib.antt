-- What a sorter by held ids does with rows and held ranges.
pub mod HeldSorter
