-- Three words a slot (Words), a client's rank (Ranks), a client more (Puts), blocks noted and clients named (Notes), and their clients (Clients).
pub mod Words
pub mod Ranks
pub mod Puts
pub mod Notes
pub mod Clients
