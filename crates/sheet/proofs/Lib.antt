pub mod Refusals
pub mod Accepted
pub mod Places
pub mod Counts
pub mod Binding
pub mod Charge
