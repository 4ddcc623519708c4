pub mod Days
pub mod Decoding
pub mod Drafts
pub mod Entries
pub mod Marks
pub mod Ranges
pub mod Segments
