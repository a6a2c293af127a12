-- How many ranges were read (Read), the ways out (Exits), that zeros name no client (Empty), and that no other answer fits (Unique).
pub mod Read
pub mod Exits
pub mod Empty
pub mod Unique
