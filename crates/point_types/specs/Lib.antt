pub mod Presence
pub mod Rows
pub mod CodeTypes
