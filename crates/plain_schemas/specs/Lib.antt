pub mod Lists
pub mod Made
pub mod Effects
pub mod Altered
pub mod Statements
