-- What a field of either form leaves in the words.
pub mod Fields
