-- What a line says of its origin is so.
pub mod Draws
pub mod Differences
pub mod InLine
pub mod Runs
pub mod Which
pub mod Explained
