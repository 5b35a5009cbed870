mod Called
mod Facts
pub mod Parts
