pub mod Odometer
pub mod Paging
pub mod Demand
pub mod Opened
pub mod EmptyBlocks
pub mod Search
pub mod Writing
pub mod Accepted
