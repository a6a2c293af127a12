-- What an update means, as short as it can be said.
pub mod Reads
pub mod Text
pub mod Line
pub mod Columns
pub mod Fields
pub mod Blocks
pub mod Update
pub mod Answers
pub mod Vector
pub mod Alike
