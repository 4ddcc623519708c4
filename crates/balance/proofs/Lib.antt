pub mod Totals
pub mod Gathering
pub mod Sheets
pub mod Balanced
pub mod Settling
pub mod Answering
pub mod Sharing
