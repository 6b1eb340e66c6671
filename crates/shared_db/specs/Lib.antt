pub mod Shared
pub mod Members
pub mod Opening
pub mod Plans
pub mod Settling
pub mod Stepping
