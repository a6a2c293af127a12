-- What holds a front, in the words of the rule (Unmet); how a board stands to a state of sorting (Stands); fronts, clients and sweeps, one after another
-- (Sweeps); and the reports (Reported).
pub mod Unmet
pub mod Stands
pub mod Sweeps
pub mod Reported
