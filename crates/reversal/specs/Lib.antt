pub mod Reversed
pub mod Building
pub mod Service
