-- What the blocks and the ranges of an update have, whatever the update.
pub mod Groups
pub mod GroupsInner
pub mod Sound
pub mod SoundInner
