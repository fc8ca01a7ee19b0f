pub mod Output
pub mod Piece
pub mod Calls
pub mod Before
