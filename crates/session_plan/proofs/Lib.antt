pub mod AloneLemmas
pub mod CommitLemmas
pub mod CommittingLemmas
pub mod LocalLemmas
mod MakingLemmas
mod RootLemmas
pub mod SealLemmas
pub mod ShowLemmas
