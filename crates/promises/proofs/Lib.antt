pub mod Calls
pub mod Good
pub mod Edited
pub mod Demands
pub mod Theorems
pub mod Lengths
pub mod Examples
