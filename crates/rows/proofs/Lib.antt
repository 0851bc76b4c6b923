pub mod Rows
pub mod Turns
pub mod Fronts
pub mod Tables
