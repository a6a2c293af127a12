-- That these are what the promises say, and demand 3 of them.
pub mod Sorts
pub mod Promises
pub mod Demand
