pub mod Stray
pub mod Rows
pub mod Verdicts
pub mod RoundTrip
