pub mod Engines
pub mod Reading
