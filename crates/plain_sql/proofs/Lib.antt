mod Vectors
pub mod NestedLemmas
pub mod InsertionLemmas
pub mod SortedLemmas
mod RankLemmas
mod RunLemmas
mod DistinctLemmas
pub mod CalmLemmas
pub mod MissedLemmas
pub mod LinkLemmas
mod LookupLemmas
mod LevelLemmas
mod EachLemmas
