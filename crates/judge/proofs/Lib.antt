pub mod Found
mod Ruled
pub mod Tools
