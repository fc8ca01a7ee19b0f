pub mod Words
pub mod Rows
pub mod Tables
pub mod Compositions
pub mod Closing
