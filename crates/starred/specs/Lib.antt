-- Two tables of examples: the starred cases of document 01 (Starred), and a place of each kind (Places).
pub mod Starred
pub mod Places
