-- Sorting by held ids, slowly.
pub mod HeldSlowly
