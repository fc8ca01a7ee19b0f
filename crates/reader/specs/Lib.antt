pub mod Read
pub mod Turns
pub mod Before
