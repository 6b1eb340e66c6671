pub mod ListNodes
mod PieceVectors
mod SliceLemmas
mod Vectors
