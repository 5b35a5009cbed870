mod Fields
pub mod Reading
pub mod EachLine
