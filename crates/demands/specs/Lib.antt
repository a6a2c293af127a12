-- Demand 3 in the demand's own words.
pub mod Allowed
