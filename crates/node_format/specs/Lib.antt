pub mod Views
pub mod Reading
pub mod Known
pub mod Marks
pub mod Faults
pub mod Found
pub mod Outlasting
pub mod Building
