pub mod Floor
pub mod Parts
pub mod Laws
pub mod Answer
