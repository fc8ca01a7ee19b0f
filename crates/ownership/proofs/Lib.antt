pub mod Climb
pub mod Nodes
pub mod Worked
