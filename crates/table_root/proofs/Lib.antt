mod FormLemmas
pub mod ListingLemmas
mod NameLemmas
pub mod PlaceLemmas
mod ReadLemmas
pub mod ReadingLemmas
pub mod RowLemmas
mod RowVectors
mod SpellingLemmas
mod StandingLemmas
pub mod TakenLemmas
mod WriteLemmas
pub mod WritingLemmas
