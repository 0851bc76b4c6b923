pub mod Splices
pub mod Changes
