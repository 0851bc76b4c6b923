pub mod Split
pub mod Join
