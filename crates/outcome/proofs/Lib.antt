-- The slots of an update and a vector (Names, Slotted). Stages as ids (Asked), each rule's (Rule28, Rule13) and by number (Stages); what a look finds
-- (Looks); words overlaid (Overlay), sums over slots (Sums), clients, slots and
-- rows (Places); how fronts and reaches stand to a state (Standing), before the first look (Begun), at a look (Pointed, Turns), and after the last
-- (Picked); the reports on that state (Reported).
pub mod Names
pub mod Slotted
pub mod Asked
pub mod Rule28
pub mod Rule13
pub mod Stages
pub mod Looks
pub mod Overlay
pub mod Sums
pub mod Places
pub mod Standing
pub mod Pointed
pub mod Turns
pub mod Begun
pub mod Picked
pub mod Reported
