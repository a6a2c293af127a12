-- The laws of keys by number: units of texts (Units), parts compared byte by byte (Bytes), keys in words (Words), their aliases (Noted), a key written
-- (Writes), and that keys find no room if there are more than so many distinct ones (Distinct).
pub mod Units
pub mod Bytes
pub mod Words
pub mod Noted
pub mod Writes
pub mod Distinct
