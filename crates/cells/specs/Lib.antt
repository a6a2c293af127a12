-- What the words hold in which reading stands.
pub mod Cells
