pub mod EditLemmas
pub mod TypeLemmas
mod Vectors
pub mod PlaceLemmas
pub mod WidthLemmas
