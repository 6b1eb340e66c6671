pub mod Turns
pub mod Orders
pub mod Lines
pub mod Replaying
pub mod Stops
pub mod Histories
pub mod Laws
