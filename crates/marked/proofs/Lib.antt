-- The laws of marked contents that are written: tokens by the kind (Marked).
pub mod Marked
