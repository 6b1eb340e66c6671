pub mod Answering
pub mod Committing
pub mod Deleting
pub mod Planning
pub mod Reading
pub mod Values
pub mod Writing
