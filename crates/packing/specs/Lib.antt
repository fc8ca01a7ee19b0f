pub mod Services
pub mod Parts
