pub mod Aside
