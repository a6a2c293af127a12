-- What the slow plain sorter reports after its sweeps.
pub mod Reports
