pub mod Searches
pub mod Told
pub mod Deciding
pub mod Tracing
pub mod Traces
pub mod Calls
pub mod Theorems
