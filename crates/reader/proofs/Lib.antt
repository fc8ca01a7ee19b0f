pub mod Names
pub mod Keeping
pub mod Places
pub mod Took
pub mod Loop
pub mod Verdicts
pub mod Theorems
