pub mod Load
pub mod Packets
pub mod Theorems
pub mod Steps
