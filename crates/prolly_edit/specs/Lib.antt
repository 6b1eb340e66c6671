pub mod Keeping
pub mod Names
pub mod Editing
pub mod Fronts
pub mod Stages
