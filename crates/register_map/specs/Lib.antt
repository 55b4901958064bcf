pub mod Headers
pub mod Scan
pub mod Insertion
pub mod CodeTypes
