pub mod Count
pub mod Verdict
pub mod Page
pub mod Joined
pub mod Widened
pub mod Before
pub mod Worked
