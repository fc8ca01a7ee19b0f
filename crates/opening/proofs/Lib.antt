pub mod Entries
pub mod Filling
pub mod Opened
pub mod Aside
