pub mod AncestorLemmas
pub mod FitLemmas
pub mod ItemLemmas
pub mod PartLemmas
mod SamenessLemmas
mod SchemaLemmas
pub mod SizeLemmas
mod ValueLemmas
pub mod TellingLemmas
mod Vectors
mod WrittenLemmas
pub mod ViolationLemmas
