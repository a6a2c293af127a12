-- What the slow plain sorter does with slots, reaches and counts: a front taken, a client's fronts, a sweep, all sweeps.
pub mod Sweeper
