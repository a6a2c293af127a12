-- What holds of keys, values and type numbers over words.
pub mod Laws
pub mod Types
