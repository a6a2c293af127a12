-- What the calls on numbers, texts and columns promise, as short as it can be said.
pub mod Places
pub mod Promises
