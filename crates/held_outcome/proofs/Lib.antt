-- Ranges hold what they hold (Ranges), and the holder that is found is the holder (Rows); the rows by number are the numbered blocks (Placed); the looks
-- come to the outcome (Came), what is reported is the first id that is not held (Waits), and all that is answered (Answers).
pub mod Ranges
pub mod Rows
pub mod Placed
pub mod Came
pub mod Waits
pub mod Answers
