pub mod Chains
pub mod Results
pub mod Subtree
pub mod Tags
pub mod Verdicts
pub mod Walks
pub mod Worked
