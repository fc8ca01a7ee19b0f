pub mod Building
pub mod Service
pub mod Swapped
pub mod Passing
pub mod Theorems
pub mod Worked
