pub mod Fields
pub mod Lines
pub mod Judging
pub mod Drafting
