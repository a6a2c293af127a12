-- Laws of an update's rows.
pub mod Owners
pub mod Heads
pub mod Walking
pub mod Clients
pub mod Sections
pub mod Gathers
