pub mod Appending
pub mod Pieces
pub mod Listing
pub mod Passing
pub mod Bounds
pub mod Reading
pub mod Decoding
pub mod Telling
