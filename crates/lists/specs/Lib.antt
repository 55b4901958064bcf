pub mod Ascii
pub mod Each
pub mod Members
pub mod Tests
pub mod Runs
pub mod Orders
