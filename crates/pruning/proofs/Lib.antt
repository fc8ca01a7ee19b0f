pub mod Standing
pub mod Entries
pub mod Filled
pub mod Fixed
