pub mod Drafts
pub mod Sheets
pub mod Turns
pub mod Laid
pub mod Drawn
