pub mod Reading
pub mod Requests
pub mod Runs
pub mod Searching
pub mod Tags
