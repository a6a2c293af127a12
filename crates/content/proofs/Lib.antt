-- Laws of the scan, and of what it finds.
pub mod Finds
pub mod Seek
