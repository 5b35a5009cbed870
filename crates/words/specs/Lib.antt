pub mod Kinds
pub mod Starts
