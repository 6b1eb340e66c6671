pub mod Kept
pub mod Choosing
pub mod Names
pub mod Merging
pub mod States
pub mod Settling
pub mod Deciding
pub mod Changing
