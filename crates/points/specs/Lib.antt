pub mod Points
pub mod Strokes
