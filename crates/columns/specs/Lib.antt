-- What the four columns mean: reading from a place on, and the text column's bytes.
pub mod Number
pub mod NumberInner
pub mod Difference
pub mod DifferenceInner
pub mod Byte
pub mod ByteInner
pub mod Reading
