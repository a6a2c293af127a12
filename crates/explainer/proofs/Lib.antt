-- Laws of following an update's blocks draw by draw.
pub mod Fits
pub mod Labels
pub mod Seeking
pub mod Going
pub mod Sheets
pub mod Holding
pub mod Measure
pub mod Turns
pub mod Forms
