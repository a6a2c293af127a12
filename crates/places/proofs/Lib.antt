-- A refusal of reading blames a byte of the update, or its end (Blamed): so do the grammars (BlamedGrammars) and each form's reader (BlamedLine,
-- BlamedStates) over the numbers (BlamedReads) and columns (BlamedColumns) of an update. And bytes behind an update (Appended), for every reader
-- (AppendedRuns) and in form 2 (AppendedColumns).
pub mod BlamedReads
pub mod BlamedGrammars
pub mod BlamedLine
pub mod BlamedColumns
pub mod BlamedStates
pub mod Blamed
pub mod AppendedRuns
pub mod AppendedColumns
pub mod Appended
