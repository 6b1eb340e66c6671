pub mod MovesLemmas
