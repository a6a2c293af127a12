-- The laws of tokens that are written: one put (Laying), a place in line (Places), what a lane takes of a token (Taking), parts of an update (Parts), how
-- long a lane can be (Sizes), values onto their column (Values), passes over tokens (Passes), each as one put (Gathered), a lane from beginning to end
-- (Written), and what makes it fit, token by token (Fitting). And of the lanes in words: stores to a lane's words (Words), a push (Pushes), the ends
-- (Ends), one token onto all lanes of a form (Deskwise), and writers one after the other (Wrote). And keys by number: their laws (Keys), what is
-- written (Keyed), and words for them (Rooms). And what is measured and not written (Sized). And an update of Yjs's in both forms (Example).
pub mod Laying
pub mod Places
pub mod Taking
pub mod Parts
pub mod Sizes
pub mod Values
pub mod Passes
pub mod Gathered
pub mod Written
pub mod Fitting
pub mod Words
pub mod Pushes
pub mod Ends
pub mod Deskwise
pub mod Wrote
pub mod Keys
pub mod Keyed
pub mod Rooms
pub mod Sized
pub mod Example
