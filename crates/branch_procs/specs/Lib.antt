pub mod Listing
pub mod Taking
pub mod Staging
pub mod Calls
pub mod Closing
pub mod Committing
