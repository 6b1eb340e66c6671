pub mod ReadLemmas
pub mod DropLemmas
