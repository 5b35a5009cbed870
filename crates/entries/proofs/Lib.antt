pub mod Places
mod Written
mod Terms
mod Single
pub mod Entries
