-- Where a block's stored part lies.
pub mod Content
pub mod ContentInner
