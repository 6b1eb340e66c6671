mod FitLemmas
mod LineLemmas
mod OpeningLemmas
pub mod PointLemmas
mod RequestLemmas
mod RiseLemmas
mod SegmentLemmas
mod SettleLemmas
mod StandLemmas
mod StepLemmas
