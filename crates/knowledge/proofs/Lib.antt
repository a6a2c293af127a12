-- More knowledge holds no block back, by any rule under which what is met stays met (More), so with a larger held set (Held), and for the slow plain run as
-- for any other (Slow); what a diff has left of the blocks comes as far as all of them (Diffs).
pub mod More
pub mod Held
pub mod Slow
pub mod Diffs
