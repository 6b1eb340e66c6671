pub mod Towers
pub mod Growth
pub mod Subtrees
pub mod Steps
pub mod Closing
pub mod Lowest
