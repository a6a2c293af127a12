-- What `explain` tells, as short as it can be said.
pub mod Explain
