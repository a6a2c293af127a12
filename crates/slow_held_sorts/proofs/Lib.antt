-- What the slow sorter gives and leaves (Exits), that it is a whole allowed run with the reports of `sort_held` (Same), and that no other answer fits (Unique).
pub mod Exits
pub mod Same
pub mod Unique
