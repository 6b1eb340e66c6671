pub mod Commits
pub mod Reading
pub mod Standing
pub mod Walks
