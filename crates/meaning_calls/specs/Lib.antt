-- What reading an update answers, as short as it can be said.
pub mod Early
pub mod Reading
pub mod SummaryInner
