pub mod Cells
pub mod Grossing
pub mod Answers
pub mod Tables
