-- The slots of a sorter: its clients, highest first.
pub mod Slots
