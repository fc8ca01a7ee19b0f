pub mod Writing
pub mod Decimal
pub mod Rows
pub mod Worked
