pub mod Words
pub mod BitTables
pub mod Rows
