pub mod Value
pub mod Tying
