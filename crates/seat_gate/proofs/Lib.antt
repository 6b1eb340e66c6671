pub mod HistoryLemmas
mod PlaceLemmas
mod Moves
mod Meetings
pub mod Gathering
pub mod Telling
pub mod WorkerLemmas
