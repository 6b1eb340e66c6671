mod SeatLemmas
mod AtGateLemmas
pub mod WayLemmas
pub mod GoingLemmas
pub mod EndingLemmas
pub mod OpeningLemmas
mod SendLemmas
