pub mod Calls
pub mod Courses
pub mod Holding
pub mod Law
