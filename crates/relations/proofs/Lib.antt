pub mod Algebra
pub mod Entries
pub mod Calls
pub mod Services
pub mod Agreement
