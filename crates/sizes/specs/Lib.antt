pub mod Work
pub mod Budgets
pub mod Pages
