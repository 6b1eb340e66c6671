pub mod EntryLemmas
pub mod KeyLemmas
pub mod ReadLemmas
pub mod RowLemmas
pub mod ScanLemmas
mod SeekLemmas
pub mod SpanLemmas
pub mod StandLemmas
pub mod SteadyLemmas
pub mod TableLemmas
pub mod TellLemmas
