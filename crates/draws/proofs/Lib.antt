-- Written tokens are drawn again. What stands at a place is read there (Standing); form 1 (Line); form 2: no column refuses what it takes of the
-- tokens (Runs, Values, Whys), the columns are cut out again and give it (Opening, Giving), a key's number finds its bytes (Keys), and tokens are drawn
-- from columns that do (Columns, Keyed, Written); either form (Drawn). And draws can be split (Splits).
pub mod Standing
pub mod Fields
pub mod Line
pub mod Runs
pub mod Keys
pub mod Values
pub mod Whys
pub mod Columns
pub mod Keyed
pub mod Opening
pub mod Giving
pub mod Written
pub mod Drawn
pub mod Splits
