pub mod Instances
pub mod Ordered
pub mod Standing
pub mod Marks
pub mod Points
pub mod Barred
pub mod Narrowed
pub mod Listed
