-- What the reader of a state vector keeps, and what its entries are.
pub mod Clients
pub mod Laws
