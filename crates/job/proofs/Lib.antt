pub mod Files
pub mod Widening
pub mod Worked
