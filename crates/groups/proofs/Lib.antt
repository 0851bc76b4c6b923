pub mod Stores
pub mod Pieces
pub mod Parts
pub mod Cutting
pub mod Passes
pub mod Taken
pub mod Works
pub mod Starts
