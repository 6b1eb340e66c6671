pub mod Entries
pub mod Keeping
pub mod Laws
pub mod Steps
pub mod Samples
