pub mod Following
pub mod Index
pub mod Parts
pub mod Worked
