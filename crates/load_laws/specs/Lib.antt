pub mod Steps
pub mod Loaded
pub mod Tables
pub mod Batches
pub mod Parts
pub mod Laws
