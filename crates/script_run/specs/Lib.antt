pub mod Following
pub mod Laws
pub mod Opening
pub mod Running
pub mod Scripts
pub mod Seats
