pub mod Decisions
pub mod Windows
pub mod Joining
mod Steps
