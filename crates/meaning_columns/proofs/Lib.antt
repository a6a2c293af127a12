-- That these are what the promises say.
pub mod Places
pub mod Promises
