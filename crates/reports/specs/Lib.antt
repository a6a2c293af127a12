-- What a sorter reports when no front can be taken.
pub mod Reports
