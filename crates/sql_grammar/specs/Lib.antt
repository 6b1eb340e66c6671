pub mod Checking
pub mod Expressions
pub mod Nests
pub mod Pieces
pub mod Reading
