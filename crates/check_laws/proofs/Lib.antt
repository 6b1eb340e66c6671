pub mod Altering
pub mod Bound
pub mod Branchings
pub mod Cells
pub mod Chains
pub mod Changing
pub mod CheckValues
mod CheckVectors
pub mod Checks
pub mod Creating
pub mod Databases
pub mod Deciding
pub mod Following
pub mod Grown
pub mod Heads
pub mod KindValues
mod KindVectors
pub mod Meaning
pub mod MergeCalls
pub mod Merging
pub mod NamesIn
pub mod Needing
pub mod Nodes
pub mod Operations
pub mod Outcomes
pub mod Ranges
pub mod Roots
pub mod Running
pub mod Scanner
pub mod Scanning
pub mod Scopes
pub mod Sharing
pub mod Sound
mod SpelledTokens
pub mod Staging
pub mod Statements
pub mod Sums
pub mod TokenLemmas
mod TokenPlaces
pub mod Turning
pub mod Writing
