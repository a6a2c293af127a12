-- Halving meets what it is for (Halved), and where it ends (Borders); the parts of what is sought, as the code tests them (Places).
pub mod Halved
pub mod Borders
pub mod Places
