pub mod Drafting
pub mod Checking
