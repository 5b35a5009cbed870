pub mod Arrays
pub mod Budgets
pub mod Given
pub mod Ranked
