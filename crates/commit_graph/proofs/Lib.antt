mod CommitLemmas
pub mod FoundLemmas
pub mod OrderLemmas
mod StandingLemmas
mod Vectors
pub mod WalkLemmas
