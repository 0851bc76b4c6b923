pub mod Splits
pub mod Joins
pub mod Undo
