-- What the theorems speak of: vectors (Vectors), diffs that are read again (Again), diffs that can be done (Doable), and case E (CaseE).
pub mod Vectors
pub mod Again
pub mod Doable
pub mod CaseE
