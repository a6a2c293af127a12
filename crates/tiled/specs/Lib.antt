-- Draws that tile the bytes that they are drawn from: in line, and in columns.
pub mod Tiles
pub mod Rows
