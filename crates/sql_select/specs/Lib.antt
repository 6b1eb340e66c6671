pub mod Choosing
pub mod Entries
pub mod Gives
pub mod Parts
pub mod Seeking
pub mod Seeks
pub mod Sources
pub mod Spans
