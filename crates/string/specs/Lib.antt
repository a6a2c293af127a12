-- The text column.
pub mod String
pub mod StringInner
