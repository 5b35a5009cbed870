mod Holding
pub mod Places
pub mod Splitting
pub mod Lists
pub mod Folding
pub mod Levels
