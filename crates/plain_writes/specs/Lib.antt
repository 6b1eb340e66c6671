pub mod CheckTexts
pub mod Seen
pub mod Steps
pub mod Typed
pub mod Violations
pub mod WriteLaws
pub mod Writes
