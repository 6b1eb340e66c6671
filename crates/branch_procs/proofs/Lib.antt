mod TablesLemmas
mod OpenLemmas
mod TakingLemmas
mod StageLemmas
mod LocalLemmas
mod ClosingLemmas
mod CommittingLemmas
