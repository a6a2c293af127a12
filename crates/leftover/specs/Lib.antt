-- Which bytes of an update stay unread.
pub mod Leftover
pub mod LeftoverInner
