-- That these are what the promises say.
pub mod Traces
pub mod Plans
pub mod Finding
pub mod Times
pub mod Forms
pub mod Runs
pub mod Explained
