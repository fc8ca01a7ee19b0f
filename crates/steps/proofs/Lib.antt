pub mod Closure
pub mod Axes
pub mod Loops
pub mod Images
