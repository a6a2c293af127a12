-- What the crate is believed to mean.
pub mod Words
pub mod Listing
