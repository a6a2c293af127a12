-- Halving (Halving), and what is found by it and made of it (Placing).
pub mod Halving
pub mod Placing
