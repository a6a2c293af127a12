-- The laws of writing: how runs are spelled and one value more (Writing), what a state stands for (Standing), loops over slices (Slices).
pub mod Writing
pub mod Standing
pub mod Slices
