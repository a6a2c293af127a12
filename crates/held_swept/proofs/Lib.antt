-- Sorting by held ids, slowly, has the one outcome (Same); the sweeps come to it (Came), what is reported is the first id that is not held (Waits), and all that
-- is answered (Answers).
pub mod Same
pub mod Came
pub mod Waits
pub mod Answers
