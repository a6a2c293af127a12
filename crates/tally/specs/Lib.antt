-- Sections in the order of their clients, and rows in that order.
pub mod Tally
