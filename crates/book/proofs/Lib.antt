pub mod Cells
pub mod Counts
pub mod Tables
