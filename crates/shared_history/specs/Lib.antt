pub mod Fitting
pub mod Lone
pub mod Meeting
pub mod Noting
pub mod Reading
pub mod Showing
pub mod Spelling
