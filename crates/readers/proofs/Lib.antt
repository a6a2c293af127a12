-- That no other answer fits, and what reading on gives.
pub mod Unique
pub mod Reading
