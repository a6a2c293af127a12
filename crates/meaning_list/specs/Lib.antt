-- What `list` prints, as short as it can be said.
pub mod Lines
