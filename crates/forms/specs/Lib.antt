pub mod Forms
pub mod Stages
