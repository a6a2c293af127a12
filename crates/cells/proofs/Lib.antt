-- Words stored in a column or behind the columns, the keys, and what that is for a state.
pub mod Words
pub mod Keys
pub mod States
pub mod Numbers
pub mod Differences
pub mod Bytes
