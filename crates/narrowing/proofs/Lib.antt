pub mod Between
pub mod Cores
pub mod Turns
pub mod Calls
