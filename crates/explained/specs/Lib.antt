-- What the theorems about explanations say.
pub mod Told
