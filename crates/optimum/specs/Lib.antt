pub mod Budgets
pub mod CostWord
pub mod Slots
pub mod Strips
pub mod OneSided
pub mod Cells
pub mod Reached
pub mod Examples
