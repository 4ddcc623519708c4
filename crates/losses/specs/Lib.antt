pub mod Adjusting
pub mod Factors
pub mod Layered
pub mod Layers
pub mod Bounds
