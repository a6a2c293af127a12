-- The laws of one pass over a slice (Laws), and of one over a text with its unit lengths (Texts).
pub mod Laws
pub mod Texts
