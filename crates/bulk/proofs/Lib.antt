-- The laws of reading in bulk (Drawing), that it is reading draw by draw (Readings), and that no other answer fits (Unique).
pub mod Drawing
pub mod Spreading
pub mod Readings
pub mod Unique
