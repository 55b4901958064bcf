pub mod Writes
pub mod AnyOrder
pub mod Calls
