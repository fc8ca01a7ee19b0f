pub mod Finding
pub mod Letters
pub mod Loop
pub mod Machine
pub mod Steps
