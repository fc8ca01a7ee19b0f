pub mod Entries
pub mod Uses
