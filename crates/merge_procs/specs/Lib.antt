pub mod Databases
pub mod Ways
pub mod Closing
pub mod Steps
pub mod Courses
pub mod Planning
pub mod Resolving
