-- The words of one slot (Words), those of one slot after another (Turns), and words that fit into the words lent (Fitted).
pub mod Words
pub mod Fitted
pub mod Turns
