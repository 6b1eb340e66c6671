pub mod boxed
pub mod sequences
