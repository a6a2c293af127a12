-- What a reader finds in what was written (Written), and of which sections and ranges that is said (Kept).
pub mod Written
pub mod Kept
