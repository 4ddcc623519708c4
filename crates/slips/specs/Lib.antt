pub mod Slips
pub mod Books
pub mod Bounds
