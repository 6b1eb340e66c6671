pub mod ListLemmas
pub mod Steps
mod WaitLemmas
pub mod Resting
pub mod LineLemmas
pub mod OrderLemmas
pub mod RunLemmas
pub mod SeenLemmas
pub mod SessionLemmas
pub mod ReplayLemmas
pub mod ThreadLemmas
pub mod HistoryLemmas
