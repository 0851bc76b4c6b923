pub mod Calls
pub mod Edits
pub mod Steps
pub mod Theorems
