pub mod CommaLemmas
mod FeatureVectors
pub mod Grouping
pub mod ListParts
mod NodeLemmas
mod Openings
pub mod PartDepths
pub mod ScaleLemmas
mod SizeLemmas
mod ValueVectors
mod Vectors
