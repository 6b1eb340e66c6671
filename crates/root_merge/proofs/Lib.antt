pub mod KeptLemmas
mod ChoosingLemmas
mod NameLemmas
pub mod MergedLemmas
mod TableLemmas
mod MadeLemmas
mod ChoiceLemmas
mod RootLemmas
mod NatLemmas
pub mod StateLemmas
mod SettlingLemmas
mod CountLemmas
pub mod DecideLemmas
mod ChangingLemmas
mod KeepingLemmas
