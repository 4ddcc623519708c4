pub mod Limits
pub mod Quarters
pub mod Spans
pub mod Answer
