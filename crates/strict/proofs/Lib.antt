-- What each way out says (Laws), that no other answer fits (Unique) and what strict reading is beside today's (Beside).
pub mod Beside
pub mod Laws
pub mod Unique
