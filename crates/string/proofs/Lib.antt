-- The laws of the text column (Texts), that what is written of texts is read (TextTrip), and reading what was written of any column, a draw at a time
-- (Steps).
pub mod Texts
pub mod TextTrip
pub mod Steps
