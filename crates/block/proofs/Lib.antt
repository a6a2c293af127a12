-- Laws of kinds (OfKinds) and of setters (Rows).
pub mod OfKinds
pub mod Rows
