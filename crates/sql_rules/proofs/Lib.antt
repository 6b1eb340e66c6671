mod Vectors
pub mod MadeNames
