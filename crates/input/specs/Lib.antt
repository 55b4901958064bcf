pub mod Lines
pub mod Digits
pub mod Parsing
pub mod Outcomes
pub mod Truncation
pub mod Writing
pub mod InternalContracts
pub mod CodeTypes
