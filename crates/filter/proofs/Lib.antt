pub mod Insides
pub mod Misses
pub mod Lookups
pub mod Verdicts
pub mod Lists
pub mod Examples
