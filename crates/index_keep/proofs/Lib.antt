mod FoundLemmas
mod EntryLemmas
pub mod SortLemmas
mod KeyLemmas
mod ChangeLemmas
mod IndexLemmas
mod PutLemmas
pub mod StandLemmas
mod TableLemmas
mod MakingLemmas
mod ReadLemmas
