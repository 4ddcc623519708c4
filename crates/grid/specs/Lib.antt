pub mod Marks
pub mod Held
pub mod Grids
pub mod Bounds
