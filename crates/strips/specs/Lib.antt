pub mod Strips
pub mod Steps
