-- What the fields of an update are in either form, and what an update means.
pub mod Line
pub mod States
pub mod Columned
pub mod ColumnedInner
pub mod Opening
pub mod Update
