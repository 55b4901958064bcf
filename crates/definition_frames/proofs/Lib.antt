pub mod RunSteps
pub mod GroupSteps
pub mod PadTests
