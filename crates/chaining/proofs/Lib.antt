-- The ways out of the functions (Ways); what a chain of rows tells of a clock (Chained), so that what is seen is so (Near); and that a row which hangs only on
-- what is not met comes to the same at a look (Light).
pub mod Ways
pub mod Chained
pub mod Near
pub mod Light
