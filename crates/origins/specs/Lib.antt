-- Where a value that was drawn from an update came from.
pub mod Origins
pub mod Numerals
pub mod Sheets
