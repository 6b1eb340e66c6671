pub mod Logic
pub mod Worths
pub mod Numbers
pub mod Kinds
pub mod Order
pub mod Assigning
pub mod Views
pub mod Totals
