-- What the public call that sorts promises (Promises), and demand 3, which that is (Demand).
pub mod Promises
pub mod Demand
