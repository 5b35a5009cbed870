pub mod Exact
pub mod Strokes
