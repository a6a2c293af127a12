-- The examples, computed from the definitions: updates that are read (ReadSo), diffs (MadeSo), sorts (TakenSo).
pub mod ReadSo
pub mod MadeSo
pub mod TakenSo
