-- That these are what is written.
pub mod Columns
pub mod Texts
pub mod Kept
pub mod Cut
pub mod Puts
pub mod Keys
pub mod Records
pub mod Diff
