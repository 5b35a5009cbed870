pub mod Read
pub mod Opened
