-- What strict reading makes of our own diffs (Diffs), of bytes behind an update (Appended; Inside: what stands in line ends inside the bytes), and of small
-- updates, computed (Cases).
pub mod Inside
pub mod Diffs
pub mod Appended
pub mod Cases
