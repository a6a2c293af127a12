-- What a normal form of delete ranges is (Ranges), a table of them as words (Table), what the passes over a table promise each other (Passes), and
-- those over one word a range (Packed).
pub mod Ranges
pub mod RangesInner
pub mod Table
pub mod TableInner
pub mod Passes
pub mod Packed
