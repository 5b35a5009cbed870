pub mod Written
pub mod Decimal
pub mod Right
pub mod Puts
pub mod Put
