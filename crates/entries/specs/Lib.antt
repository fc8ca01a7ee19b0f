pub mod Postfix
pub mod Size
pub mod Builder
