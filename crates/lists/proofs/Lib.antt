pub mod Tests
pub mod Places
pub mod Grown
pub mod Arrays
pub mod Signed
pub mod Number
