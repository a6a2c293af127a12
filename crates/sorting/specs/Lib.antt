-- Steps and runs without any sorter (Steps), the blocks of an update and what a rule is by which a front is ready (Rules), the rules (Rule28, Rule13)
-- and their numbers (Named), the order in which the highest client goes first (Quick), what is reported of an update (Sorted), the slow plain order
-- (Slow), and sorting by held ids (Held).
pub mod Steps
pub mod StepsInner
pub mod Rules
pub mod Rule28
pub mod Rule28Inner
pub mod Rule13
pub mod Rule13Inner
pub mod Named
pub mod Quick
pub mod Sorted
pub mod Slow
pub mod Held
