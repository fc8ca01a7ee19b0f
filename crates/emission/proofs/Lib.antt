pub mod Emission
pub mod Writing
