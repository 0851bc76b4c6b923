pub mod Numbers
pub mod Items
pub mod Records
pub mod Counts
pub mod Lists
pub mod Buffers
pub mod Steps
