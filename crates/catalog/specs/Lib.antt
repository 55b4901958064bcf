pub mod State
pub mod Rules
pub mod Checking
pub mod CodeTypes
pub mod InternalScans
pub mod InternalTracking
pub mod InternalMarks
