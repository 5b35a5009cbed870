mod Decoded
mod Eight
pub mod Opening
pub mod Reading
mod Wordwise
