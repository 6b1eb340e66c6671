pub mod Scopes
pub mod Valuing
pub mod Binding
