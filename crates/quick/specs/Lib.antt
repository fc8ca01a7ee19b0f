pub mod Effort
pub mod Search
pub mod Service
