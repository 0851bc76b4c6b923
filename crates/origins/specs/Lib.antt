pub mod Origin
pub mod Theorems
pub mod Steps
