-- The words of one slot (Words), and the reports as words of one slot after another (Turns).
pub mod Words
pub mod Turns
