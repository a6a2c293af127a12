-- The rows as they are seen (Seen), what holds a front, and in which row it stands (Fronts), and the three loops (Sweeps).
pub mod Seen
pub mod Fronts
pub mod Sweeps
