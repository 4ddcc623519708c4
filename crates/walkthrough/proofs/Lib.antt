pub mod Peaks
pub mod Piles
pub mod Spans
pub mod Thousands
