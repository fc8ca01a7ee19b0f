pub mod Part
pub mod SeenTree
pub mod Filling
