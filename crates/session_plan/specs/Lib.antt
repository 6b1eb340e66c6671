pub mod Answering
pub mod Calls
pub mod Committing
pub mod Showing
