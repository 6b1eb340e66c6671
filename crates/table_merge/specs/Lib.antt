pub mod Rising
pub mod Laws
pub mod Merging
pub mod Walking
pub mod Steps
pub mod Skipping
