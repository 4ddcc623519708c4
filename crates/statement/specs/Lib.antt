pub mod Text
pub mod Statement
pub mod Law
pub mod Writing
