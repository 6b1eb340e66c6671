mod StepLemmas
mod WayNames
mod WayLemmas
mod DatabasesLemmas
pub mod ClosingLemmas
mod BackLemmas
mod VerifyingLemmas
mod PlanningLemmas
mod DecidingLemmas
mod TheirsLemmas
mod TakingLemmas
mod SettleLemmas
mod JudgeLemmas
