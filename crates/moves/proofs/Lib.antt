pub mod Rows
pub mod Columns
pub mod Passes
pub mod Axes
