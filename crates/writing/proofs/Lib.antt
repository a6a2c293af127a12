-- The plan has room (Room) and names the sections kept (Rows), with their keys even where a cut would be inside a pair (Marks); the tokens of a diff are
-- legal and few (SmallLegal, SmallSize, SmallRanges); what is written is the diff (Planned, Meaning); the ways out (Exits, Entries).
pub mod Room
pub mod Rows
pub mod SmallLegal
pub mod SmallSize
pub mod SmallRanges
pub mod Marks
pub mod Planned
pub mod Meaning
pub mod Exits
pub mod Entries
