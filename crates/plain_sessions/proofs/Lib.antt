mod Vectors
mod FitLemmas
mod RequestLemmas
