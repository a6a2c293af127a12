-- What holds of the fields over words.
pub mod Texts
pub mod Laws
