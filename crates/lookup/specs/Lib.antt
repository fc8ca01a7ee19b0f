pub mod Chain
pub mod Parts
pub mod Worked
