pub mod Decisions
pub mod Outcomes
