-- What a line says of its origin.
pub mod Facts
