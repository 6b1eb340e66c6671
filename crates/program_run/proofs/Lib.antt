mod FullLemmas
mod CountLemmas
mod SpelledLemmas
mod LoadLemmas
mod TextLemmas
mod Vectors
pub mod AnswerLemmas
pub mod EndingLemmas
pub mod EpochLemmas
pub mod FewLemmas
pub mod LoadLineLemmas
pub mod TopLemmas
mod WordVectors
