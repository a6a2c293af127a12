-- A diff that is written is read again: its content (Contents), a block (Blocks), the sections (Sections), the delete set (Deletes), all of it (Whole).
-- What is cut out of a sound row can be written (Cuts), so its tokens are legal (LegalUpdate), and what a diff keeps of any update is as these laws ask
-- (Rows, Keeping).
pub mod Infos
pub mod Courses
pub mod Ids
pub mod Roots
pub mod Values
pub mod Holdings
pub mod Contents
pub mod Places
pub mod Blocks
pub mod Texts
pub mod Cuts
pub mod Pieces
pub mod Sections
pub mod Deletes
pub mod Left
pub mod Legals
pub mod LegalUpdate
pub mod Whole
pub mod Rows
pub mod Keeping
