pub mod Text
pub mod Program
pub mod Truncation
pub mod InternalContracts
pub mod CodeTypes
