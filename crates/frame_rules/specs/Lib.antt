pub mod FrameTests
pub mod CodeTypes
