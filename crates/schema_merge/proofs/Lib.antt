pub mod Gathering
pub mod Keys
pub mod MergeLemmas
mod Vectors
mod WholeMergeVectors
