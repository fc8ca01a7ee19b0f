pub mod Turns
pub mod Terms
pub mod Entries
pub mod Numbers
pub mod Sums
pub mod Five
pub mod Accepted
