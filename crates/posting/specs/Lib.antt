pub mod Rows
pub mod Readings
