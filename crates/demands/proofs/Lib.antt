-- When a step is allowed (Steps), that every run can be carried on (Carried), and when a sort is done (Done).
pub mod Steps
pub mod Carried
pub mod Done
