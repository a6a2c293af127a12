-- That this is what the promise says.
pub mod Lines
