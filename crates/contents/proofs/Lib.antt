-- Laws of the parts: they lie inside the update, and no other answer fits.
pub mod Inside
pub mod Unique
