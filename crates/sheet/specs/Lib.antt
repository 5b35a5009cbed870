pub mod Limits
pub mod Refusals
pub mod Sheet
pub mod Words
pub mod Binding
