-- How held ids that were read are told.
pub mod Givens
