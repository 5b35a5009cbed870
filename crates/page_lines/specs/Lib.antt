pub mod Columns
pub mod Lines
pub mod Reading
