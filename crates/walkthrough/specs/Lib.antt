pub mod Figures
pub mod Piles
pub mod Spans
