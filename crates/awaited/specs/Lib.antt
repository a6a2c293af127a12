-- What a client with blocks left waits for.
pub mod Awaited
