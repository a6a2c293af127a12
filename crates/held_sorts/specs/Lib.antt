-- What the public call that sorts by held ids promises (Promises), and demand 3 over held sets, which that is (Demand).
pub mod Promises
pub mod Demand
