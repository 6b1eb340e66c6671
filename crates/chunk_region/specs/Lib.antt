pub mod Holding
pub mod Pages
