pub mod Rooms
pub mod Puts
