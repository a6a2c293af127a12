-- That these are what the promises say.
pub mod Reading
pub mod Enough
pub mod Where
pub mod Summary
pub mod Unread
pub mod Strictly
pub mod Early
pub mod Both
