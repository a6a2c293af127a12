-- The loops over rows and fronts (Noting, Looking), and what the functions come to (Exits).
pub mod Noting
pub mod Looking
pub mod Exits
