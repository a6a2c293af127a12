-- What the crate is believed to mean.
pub mod Lines
pub mod LinesInner
