pub mod Integers
pub mod Floor
pub mod Quotients
pub mod Parts
pub mod Fair
pub mod Answer
