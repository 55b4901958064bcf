pub mod Frames
pub mod CodeTypes
pub mod InternalWords
