pub mod Sections
pub mod Orders
pub mod Pairs
pub mod Steps
