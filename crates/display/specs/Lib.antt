pub mod Amounts
pub mod Decimals
pub mod Reading
pub mod Equality
pub mod InternalParts
pub mod CodeTypes
