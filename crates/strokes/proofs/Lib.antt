pub mod Drawn
mod Examples
mod Placed
mod Read
mod Sought
