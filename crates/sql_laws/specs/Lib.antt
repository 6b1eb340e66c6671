pub mod Canonical
pub mod CanonicalLaws
pub mod Fit
pub mod GrammarLaws
pub mod Sound
pub mod SoundLaws
pub mod Spelling
pub mod Written
