-- Places that reading comes to and what refusals say, the laws of passing over values, the levels that are open, values that are copied, and
-- worked examples.
pub mod Places
pub mod Laws
pub mod Levels
pub mod Moves
pub mod More
pub mod Examples
