pub mod Flaws
pub mod Broken
pub mod Model
pub mod Counts
