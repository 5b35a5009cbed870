pub mod Labels
pub mod Page
pub mod Promise
