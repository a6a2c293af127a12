-- The ways out, whatever order the sorter takes (Ways), what the sorter gives and leaves (Exits), that the promise is demand 3 (Demand), and that no other
-- answer fits (Unique).
pub mod Ways
pub mod Exits
pub mod Demand
pub mod Unique
