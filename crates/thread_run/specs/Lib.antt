pub mod Turns
pub mod Gate
pub mod Leaving
pub mod Going
pub mod Opening
pub mod Ending
