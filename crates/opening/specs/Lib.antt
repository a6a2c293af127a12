-- What opening form 2 leaves in the words.
pub mod Opening
