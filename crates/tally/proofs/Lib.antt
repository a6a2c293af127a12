-- Laws of counting blocks.
pub mod Laws
