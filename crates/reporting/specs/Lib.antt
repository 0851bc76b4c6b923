pub mod Report
pub mod Theorems
