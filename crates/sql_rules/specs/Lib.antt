pub mod Names
pub mod Writes
pub mod Arguments
pub mod Selects
pub mod Tables
pub mod Constraints
pub mod Defaults
pub mod Outside
