pub mod Postfix
pub mod Size
pub mod Drafts
