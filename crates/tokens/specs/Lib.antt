-- What is written of an update, token by token (Tokens), keys by number (Keys), its bytes in either form (Bytes), how a lane is written a token at a
-- time (Lanes), and how all lanes of a form are, side by side (Desk).
pub mod Tokens
pub mod TokensInner
pub mod Keys
pub mod KeysInner
pub mod Bytes
pub mod Lanes
pub mod Desk
