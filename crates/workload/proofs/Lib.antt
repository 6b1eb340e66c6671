pub mod WorkloadLemmas
mod Vectors
