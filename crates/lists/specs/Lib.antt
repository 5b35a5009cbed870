pub mod Arrays
pub mod Signs
pub mod Number
