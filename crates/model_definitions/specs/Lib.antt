pub mod Definitions
pub mod Soundness
pub mod Removal
