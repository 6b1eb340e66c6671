pub mod Bytes
pub mod Lexing
pub mod Limits
pub mod Slices
pub mod Tokens
pub mod Values
pub mod Words
