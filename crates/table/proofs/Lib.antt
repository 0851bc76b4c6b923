pub mod Turns
pub mod Agreement
pub mod Examples
