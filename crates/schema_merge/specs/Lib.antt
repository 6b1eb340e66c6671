pub mod Changes
pub mod KeyByKey
pub mod Merging
pub mod Names
pub mod Parts
pub mod Projecting
pub mod RootMerge
pub mod TableMerge
