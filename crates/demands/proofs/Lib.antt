mod Tools
pub mod Layouts
pub mod Demands
pub mod Twin
pub mod Page
pub mod Strokes
pub mod Counts
