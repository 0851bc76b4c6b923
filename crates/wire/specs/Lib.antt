pub mod Numbers
pub mod Records
pub mod Lists
pub mod Buffers
pub mod Steps
