pub mod Changes
pub mod Commits
pub mod Laws
pub mod Pages
pub mod Records
pub mod Standing
pub mod Transactions
