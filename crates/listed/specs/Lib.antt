-- What the listing of an update is.
pub mod Listed
