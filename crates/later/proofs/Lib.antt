-- A client's blocks in a diff (Queues), what a call's words say (Words), asking later (Later), sorting a diff (Diffs), why it has to read (Readable), the
-- same of the slow plain sorter (Slowly), a larger held set (Heldly), and examples of both: reaches rise (Examples), and a diff that is too long (TooLong).
pub mod Queues
pub mod Words
pub mod Later
pub mod Diffs
pub mod Readable
pub mod Slowly
pub mod Heldly
pub mod Examples
pub mod TooLong
