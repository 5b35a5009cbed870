mod Bounds
pub mod Budgets
