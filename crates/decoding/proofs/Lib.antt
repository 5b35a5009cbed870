pub mod Budgets
pub mod Fields
pub mod Fits
pub mod Fronts
pub mod Places
pub mod Records
