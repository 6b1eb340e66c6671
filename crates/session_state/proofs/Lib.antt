pub mod BranchLemmas
pub mod ChangeLemmas
pub mod CommitLemmas
pub mod OpeningLemmas
pub mod PageLemmas
pub mod RecordLemmas
pub mod StateLemmas
pub mod TransactionLemmas
