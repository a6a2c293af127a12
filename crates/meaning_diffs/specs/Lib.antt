-- What diffs answer, as short as it can be said.
pub mod Diffs
