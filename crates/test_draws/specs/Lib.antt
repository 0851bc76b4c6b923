-- What the functions of this crate promise is said with these.
pub mod Steps
