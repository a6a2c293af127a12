-- The laws behind the public calls, that no other answer fits, that what is written is read back, and that what was refused stays refused.
pub mod Laws
pub mod Unique
pub mod WrittenBack
pub mod Shut
