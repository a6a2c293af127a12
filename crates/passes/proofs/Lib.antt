-- Writers in places apart, so all lanes at once are lane after lane (Apart); what leads a lane (LeadBytes), lanes one after the other (Chains), numbers
-- without columns behind them (Plain), and that all of it makes up the form (Wholes); what leads the lanes, as it is written, and the loops over lanes
-- (Places), and the ways out of the passes (Exits).
pub mod Apart
pub mod LeadBytes
pub mod Chains
pub mod Plain
pub mod Wholes
pub mod Places
pub mod Exits
