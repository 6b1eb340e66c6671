pub mod Canon
pub mod Depths
pub mod Features
pub mod Nesting
pub mod OrderKeys
pub mod SelectNames
pub mod Sizes
pub mod Values
