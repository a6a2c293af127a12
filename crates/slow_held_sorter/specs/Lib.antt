-- What the slow plain sorter by held ids does with rows and held ranges.
pub mod SlowHeld
