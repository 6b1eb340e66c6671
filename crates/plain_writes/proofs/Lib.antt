pub mod CellLemmas
pub mod DatabaseLemmas
pub mod EffectLemmas
pub mod InsertionLemmas
pub mod KeptEffects
pub mod ListingLemmas
pub mod OrderLemmas
pub mod OutcomeLemmas
pub mod PlaceLemmas
pub mod RowLemmas
pub mod RowOrderLemmas
pub mod SearchLemmas
pub mod SortLemmas
mod Vectors
