pub mod Codes
pub mod Plain
pub mod Once
pub mod Loaded
