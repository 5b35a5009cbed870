pub mod Faults
pub mod Results
pub mod Refusals
