-- What the sorts promise, and demand 3, as short as they can be said.
pub mod Found
pub mod Sorts
pub mod Promises
pub mod Demand
pub mod DemandInner
