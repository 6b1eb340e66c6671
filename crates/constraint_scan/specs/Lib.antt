pub mod Refusals
pub mod Changed
pub mod Pairs
