pub mod Scanning
pub mod Asked
