pub mod Table
pub mod Texts
