-- What holds of the lines of a sheet.
pub mod Sheets
