pub mod Layers
pub mod Bounds
