pub mod Events
pub mod CodeTypes
