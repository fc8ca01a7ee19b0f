pub mod Over
pub mod Isolation
pub mod Meets
