pub mod FillCounts
pub mod RecordSteps
