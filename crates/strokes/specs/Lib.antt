pub mod Seeking
pub mod Strokes
