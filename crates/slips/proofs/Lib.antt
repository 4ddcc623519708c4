pub mod Puts
pub mod Arranging
