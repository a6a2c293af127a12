-- Theorems about the meaning of an update: bytes that are not read change nothing (Unread, Vectors), a reading with the number 0 is whole, for no refusal has
-- it (Numbered*, Readings), and a number that is spelled longer reads the same (Longer, LongerDraws).
pub mod Courses
pub mod NumberedColumns
pub mod Lines
pub mod Columns
pub mod Unread
pub mod Numbered
pub mod Vectors
pub mod Readings
pub mod Longer
pub mod LongerDraws
