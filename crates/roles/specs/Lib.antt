-- The plan of an update's blocks, draw by draw.
pub mod Roles
pub mod RolesInner
