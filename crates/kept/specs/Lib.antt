-- What a diff keeps (Kept), a piece of a block as a record (Cut), and how rows are planned and gone through (Plan).
pub mod Kept
pub mod KeptInner
pub mod Cut
pub mod CutInner
pub mod Plan
