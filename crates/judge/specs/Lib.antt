pub mod Judge
pub mod Opened
