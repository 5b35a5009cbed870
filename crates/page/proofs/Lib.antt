mod Counting
mod Texts
mod Numbered
mod Joined
pub mod Promise
mod Writing
mod Examples
