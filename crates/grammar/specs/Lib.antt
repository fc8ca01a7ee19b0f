pub mod Grammar
pub mod Online
pub mod Automaton
pub mod Typed
pub mod Before
