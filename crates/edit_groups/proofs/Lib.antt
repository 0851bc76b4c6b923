pub mod Touched
pub mod Slots
pub mod Joins
pub mod Settled
pub mod Gaps
