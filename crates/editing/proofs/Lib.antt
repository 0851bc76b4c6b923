pub mod Calls
pub mod Revised
pub mod Parts
pub mod Changed
pub mod Made
pub mod Edited
