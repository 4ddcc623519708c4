pub mod Slate
pub mod Entries
pub mod Questions
pub mod Holding
