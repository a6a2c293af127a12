-- What the crate is believed to mean.
pub mod Row
pub mod Rows
pub mod RowsInner
pub mod Kinds
pub mod KindsInner
