pub mod KeepLemmas
pub mod NameLemmas
pub mod EditLemmas
pub mod StageLemmas
pub mod FrontLemmas
pub mod SubtreeLaws
pub mod TurnLemmas
