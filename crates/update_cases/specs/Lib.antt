-- What a line says of lent words.
pub mod Entries
