pub mod Wordwise
pub mod Input
