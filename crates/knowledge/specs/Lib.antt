-- What it means that more knowledge holds nothing back (More), and what a diff has of a client's blocks, as a sorter sees them (Rests).
pub mod More
pub mod Rests
