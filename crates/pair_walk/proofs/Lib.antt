pub mod ChangeLaws
pub mod TurnLemmas
pub mod Arms
pub mod Comparisons
