-- What each way out says (Laws), what every reading has (Read), where a refusal blames its update and what bytes behind it change (Places), and that no
-- other answer fits (Unique).
pub mod Laws
pub mod Places
pub mod Read
pub mod Unique
