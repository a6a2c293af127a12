-- What the sorter gives and leaves (Answers), the ways out whatever the order (Ways) and for this one (Exits), that the promise is demand 3 (Demand), and
-- that no other answer fits (Unique).
pub mod Answers
pub mod Ways
pub mod Exits
pub mod Demand
pub mod Unique
