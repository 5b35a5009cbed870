pub mod Asked
pub mod Cleared
pub mod Followed
pub mod Points
pub mod Reach
