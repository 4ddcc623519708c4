pub mod Profiling
pub mod Balances
