-- What holds of a draw that is told.
pub mod Laws
