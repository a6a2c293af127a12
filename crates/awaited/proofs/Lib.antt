-- The parts of what is reported, as the code tests them.
pub mod Waits
