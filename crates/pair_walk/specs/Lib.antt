pub mod Counts
pub mod Pairs
pub mod Turns
pub mod Heads
