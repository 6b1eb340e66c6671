pub mod Heads
pub mod TableHeads
pub mod Tables
pub mod Alters
pub mod Selects
pub mod Statements
