pub mod BlankLemmas
pub mod LineLemmas
mod NumeralLemmas
mod SessionLemmas
mod Vectors
mod ScriptVectors
mod ShownVectors
mod TextParts
mod LineParts
mod ByteLemmas
pub mod ClashLemmas
mod ReplyParts
mod RunParts
mod StopParts
