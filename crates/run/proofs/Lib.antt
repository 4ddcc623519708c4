pub mod Answering
pub mod Courses
pub mod Runs
