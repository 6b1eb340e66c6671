pub mod History
pub mod Places
pub mod Rule
pub mod Standing
pub mod Words
pub mod Working
pub mod Told
