pub mod Scanning
pub mod Written
pub mod Recording
pub mod Recorded
pub mod Seeking
pub mod Roots
pub mod Thinned
