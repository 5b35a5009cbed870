pub mod LinesPut
mod Words
pub mod Report
