-- What it is to remember a key, and to note a part.
pub mod Numbering
