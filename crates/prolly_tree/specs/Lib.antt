pub mod Found
pub mod Fronts
pub mod Heads
pub mod Lists
pub mod Meets
pub mod Standing
pub mod TreeLaws
pub mod Walks
