-- Laws of a summary.
pub mod Laws
pub mod Taking
pub mod Answers
pub mod RoundTrip
pub mod Examples
