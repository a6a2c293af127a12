-- Laws of what `explain` answers, and that no other answer fits.
pub mod Answers
pub mod Sheets
pub mod Wholes
pub mod Unique
pub mod WorkedSo
pub mod Sums
