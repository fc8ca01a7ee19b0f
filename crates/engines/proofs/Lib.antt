pub mod Images
pub mod Entries
