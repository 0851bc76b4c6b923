pub mod Sums
pub mod Gains
pub mod Packets
pub mod Blocks
pub mod Traces
pub mod Theorems
