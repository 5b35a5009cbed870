pub mod Input
pub mod Lines
pub mod Report
