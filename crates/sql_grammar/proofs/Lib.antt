pub mod LoneLiterals
pub mod Turns
mod Vectors
