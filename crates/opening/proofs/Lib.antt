-- What holds of opening form 2.
pub mod Opening
