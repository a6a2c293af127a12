-- Reading what was written (Back, RoundTrip), and that draws stay inside the bytes (Inside).
pub mod Back
pub mod RoundTrip
pub mod Inside
