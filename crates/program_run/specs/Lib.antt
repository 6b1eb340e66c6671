pub mod Loading
pub mod Answers
pub mod Endings
pub mod Headline
pub mod Loads
pub mod Stops
pub mod Words
