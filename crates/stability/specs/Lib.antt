pub mod Stability
pub mod Removed
pub mod TwoCalls
