-- The bound below which all places stay.
pub mod Brim
